pub mod Served
pub mod Chained
pub mod Fed
