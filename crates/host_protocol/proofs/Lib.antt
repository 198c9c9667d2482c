pub mod Stages
pub mod Granted
pub mod InOrder
pub mod StillLive
pub mod Runs
