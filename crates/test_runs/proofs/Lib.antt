pub mod TwoRuns
pub mod Steps
pub mod RowLemmas
pub mod RoomLemmas
pub mod SoundLemmas
pub mod FirstExampleLemmas
mod BesideLemmas
pub mod HostRowLemmas
pub mod ConsoleRowLemmas
pub mod Led
