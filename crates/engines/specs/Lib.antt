pub mod Printing
pub mod Solve
pub mod Opening
pub mod Run
pub mod Session
pub mod Serving
pub mod Claim
