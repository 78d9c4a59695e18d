pub mod Stability
pub mod Prices
pub mod MinimumCut
