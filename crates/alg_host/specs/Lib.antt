pub mod Hosts
pub mod Requests
