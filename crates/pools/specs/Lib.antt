pub mod Room
pub mod Pools
