pub mod Clashes
pub mod Pairs
