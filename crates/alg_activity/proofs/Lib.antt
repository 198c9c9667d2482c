mod Frames
mod RowLemmas
