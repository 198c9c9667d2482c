pub mod Blocks
pub mod Growth
pub mod Started
pub mod Ends
pub mod Leaving
pub mod Calls
