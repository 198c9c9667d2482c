pub mod Steppings
pub mod Pairings
pub mod Recursions
