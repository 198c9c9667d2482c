pub mod Boxed
pub mod Served
pub mod There
