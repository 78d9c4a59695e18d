pub mod NodeNumbers
pub mod Slackness
pub mod RowLemmas
pub mod WalkLemmas
pub mod GraphLemmas
pub mod Pseudoflows
