pub mod RowCounts
pub mod Turns
pub mod Whole
