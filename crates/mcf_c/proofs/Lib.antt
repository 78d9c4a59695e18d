mod LooseValues
mod Groups
mod Pointers
