pub mod Frames
pub mod Framings
pub mod Mappings
pub mod Words
pub mod Either
pub mod Wrapped
