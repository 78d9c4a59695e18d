pub mod MarkLemmas
pub mod TouchedLemmas
pub mod TrackedLemmas
pub mod JournalLemmas
