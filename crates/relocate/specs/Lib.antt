pub mod Places
pub mod Spots
pub mod Ends
pub mod Packing
pub mod Compaction
pub mod Rows
