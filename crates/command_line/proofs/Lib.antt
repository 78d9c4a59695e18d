pub mod MatchLemmas
pub mod RowLemmas
pub mod TakenLemmas
pub mod RefusalLemmas
