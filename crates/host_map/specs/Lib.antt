pub mod Blocks
pub mod Moves
pub mod MemoryMap
pub mod Creation
pub mod Sharers
pub mod Activity
