pub mod Meaning
pub mod Words
pub mod Rows
