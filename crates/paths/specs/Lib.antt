pub mod Following
pub mod Stepping
pub mod Cutting
pub mod Edges
