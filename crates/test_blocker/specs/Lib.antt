pub mod Equation
pub mod Rows
