pub mod End
pub mod Reading
pub mod Devices
