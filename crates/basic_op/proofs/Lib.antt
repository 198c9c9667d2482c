pub mod HalfLemmas
pub mod Norms
pub mod Shifts
