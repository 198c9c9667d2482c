pub mod Bases
pub mod Valid
pub mod Layouts
