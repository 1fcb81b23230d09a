pub mod Edges
pub mod Content
pub mod Counting
pub mod Turns
pub mod Whole
