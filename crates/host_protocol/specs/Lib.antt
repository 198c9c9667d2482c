pub mod Protocol
pub mod Order
pub mod Rows
