pub mod Limits
pub mod Push
pub mod Changes
pub mod Exchange
