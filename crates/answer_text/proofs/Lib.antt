pub mod AnswerDecidedLemmas
pub mod AnswerLemmas
pub mod AnswerLineLemmas
pub mod AnswerTakeLemmas
pub mod SaidLemmas
