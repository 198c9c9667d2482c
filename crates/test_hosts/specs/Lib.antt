pub mod Diaries
pub mod TwoFeeds
