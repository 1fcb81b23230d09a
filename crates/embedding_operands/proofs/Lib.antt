pub mod Steps
pub mod Paths
