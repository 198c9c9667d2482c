pub mod Keeps
pub mod Kept
pub mod Voices
