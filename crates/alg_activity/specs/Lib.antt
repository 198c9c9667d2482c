pub mod Equation
pub mod Numbers
pub mod Keeps
pub mod Rows
pub mod Sizes
