pub mod Blocks
pub mod Words
pub mod Plans
pub mod Filters
pub mod Readers
pub mod Loans
pub mod Sharing
