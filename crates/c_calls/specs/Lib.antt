pub mod Library
pub mod Answer
pub mod Arrays
pub mod ArrayText
