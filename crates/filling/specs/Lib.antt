pub mod Room
pub mod Sinks
pub mod Written
