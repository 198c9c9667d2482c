pub mod Bounded
pub mod HalfEights
pub mod HalfLanes
pub mod Halves
pub mod Rings
pub mod Sums
pub mod Watched
pub mod Windows
