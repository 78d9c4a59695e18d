pub mod Files
pub mod Tasks
