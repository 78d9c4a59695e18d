pub mod Limits
pub mod Links
