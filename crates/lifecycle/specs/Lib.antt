pub mod States
pub mod Laws
pub mod Moves
pub mod Rooms
pub mod Keeping
pub mod Turns
