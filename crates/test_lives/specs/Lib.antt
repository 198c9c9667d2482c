pub mod Owners
pub mod Blocks
pub mod Turns
