pub mod Levels
pub mod Elements
