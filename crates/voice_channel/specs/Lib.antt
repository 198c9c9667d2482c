pub mod Channels
pub mod Hosts
