pub mod Locations
pub mod Owners
pub mod Sharing
pub mod Joining
