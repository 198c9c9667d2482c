pub mod AllocateContract
pub mod DeallocateContract
pub mod MeterCalls
pub mod Parameters
pub mod Kept
pub mod Starting
pub mod Levels
mod Writing
