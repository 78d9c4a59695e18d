pub mod QueueLemmas
