pub mod SourceLemmas
pub mod ReadLemmas
