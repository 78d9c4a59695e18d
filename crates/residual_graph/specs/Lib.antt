pub mod Limits
pub mod Residual
pub mod Graph
pub mod Walk
pub mod Side
