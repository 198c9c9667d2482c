pub mod Diary
pub mod Turns
