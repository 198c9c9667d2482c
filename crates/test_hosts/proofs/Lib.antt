pub mod CutFeeds
pub mod TwoChannels
pub mod TwoFeeds
