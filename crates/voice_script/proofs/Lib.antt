pub mod ReadingLemmas
pub mod ReplyLemmas
pub mod RowLemmas
pub mod WordLemmas
pub mod ComputedLemmas
pub mod DigitLemmas
pub mod WidthLemmas
