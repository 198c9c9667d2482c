pub mod HeadlineLemmas
pub mod LawfulLemmas
pub mod LivesLemmas
pub mod StartLemmas
pub mod SampleLemmas
pub mod Served
