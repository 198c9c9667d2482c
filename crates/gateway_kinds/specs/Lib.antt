pub mod Keeps
pub mod Kinds
pub mod Kept
