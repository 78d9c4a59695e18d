pub mod Buffered
pub mod Device
pub mod Line
pub mod Testing
pub mod Calls
