pub mod NodeLists
pub mod Marks
pub mod Touched
pub mod Tracked
pub mod Journal
