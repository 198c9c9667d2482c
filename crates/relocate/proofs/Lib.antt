pub mod RangeTests
pub mod Multiples
pub mod PackingLemmas
pub mod CompactionLemmas
pub mod Fronts
pub mod Lowers
pub mod RowLemmas
