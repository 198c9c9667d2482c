pub mod Maps
pub mod Holes
