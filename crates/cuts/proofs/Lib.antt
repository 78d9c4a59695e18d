pub mod CutLemmas
pub mod ExcessLemmas
