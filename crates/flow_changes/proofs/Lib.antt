pub mod PushLemmas
pub mod PushesLemmas
pub mod ExchangeLemmas
pub mod WantedPaths
pub mod ChangeLemmas
