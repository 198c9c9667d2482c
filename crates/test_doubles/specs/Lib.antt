pub mod Primed
pub mod Starts
pub mod Slicer
pub mod Lawless
pub mod Trials
pub mod Rogues
pub mod Writing
