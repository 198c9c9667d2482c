pub mod Numbers
pub mod Equation
pub mod Keeps
pub mod Sums
