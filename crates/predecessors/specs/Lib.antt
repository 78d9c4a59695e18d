pub mod Limits
pub mod Predecessor
