pub mod Blocks
pub mod Frames
pub mod Framings
pub mod Joining
pub mod Mappings
pub mod Parameters
