pub mod PathLemmas
pub mod SettleLemmas
pub mod CutLemmas
pub mod NodeLemmas
pub mod CertificateLemmas
pub mod HeldLemmas
pub mod NearLemmas
