pub mod Served
pub mod ListLemmas
pub mod Refused
