pub mod Laws
pub mod Rings
pub mod Steps
pub mod Words
pub mod DecimSteps
pub mod DecimRecords
pub mod RowLemmas
