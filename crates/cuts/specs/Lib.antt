pub mod Cut
pub mod Excess
pub mod Side
