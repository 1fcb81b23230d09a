pub mod Paths
pub mod Ready
pub mod Edges
pub mod Comparing
