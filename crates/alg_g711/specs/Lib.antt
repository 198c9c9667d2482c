pub mod Companding
pub mod Intervals
pub mod Meaning
pub mod Rows
pub mod Keeps
pub mod Least
pub mod Parameters
pub mod Steps
