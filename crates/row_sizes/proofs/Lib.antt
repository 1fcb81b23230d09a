pub mod Adding
pub mod Storing
