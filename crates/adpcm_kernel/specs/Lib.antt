pub mod Tables
pub mod Subblocks
