pub mod Housing
pub mod Lives
pub mod Rooms
pub mod Single
