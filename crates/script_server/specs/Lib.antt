pub mod LineRuns
pub mod Runs
