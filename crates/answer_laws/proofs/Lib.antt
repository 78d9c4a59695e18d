mod Steps
mod Read
mod ReadCut
mod Right
mod Short
mod Checking
