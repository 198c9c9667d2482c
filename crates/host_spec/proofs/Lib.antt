pub mod CallLemmas
pub mod MoveLemmas
pub mod RunLemmas
pub mod LifeLemmas
pub mod AnswerLemmas
pub mod CompactLemmas
pub mod OutcomeLemmas
