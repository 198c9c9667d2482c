pub mod Dividing
pub mod Shifts
pub mod Computed
pub mod Samples
pub mod Outputs
pub mod Coders
pub mod Keeping
pub mod RowLemmas
