pub mod Ownership
pub mod Handles
