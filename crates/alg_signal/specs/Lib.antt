pub mod Tones
pub mod Rows
