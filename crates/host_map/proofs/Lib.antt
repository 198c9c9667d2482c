pub mod MoveLemmas
pub mod BlockLemmas
