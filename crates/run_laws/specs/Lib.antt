pub mod Alike
pub mod Texts
pub mod Undone
pub mod Returned
pub mod Cutting
pub mod Near
