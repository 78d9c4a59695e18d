pub mod Knowledge
pub mod Levels
pub mod Progress
pub mod Search
pub mod Tree
pub mod TreeTables
