pub mod SearchLemmas
pub mod StepLemmas
pub mod TreeLemmas
pub mod LevelLemmas
