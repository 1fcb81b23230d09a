pub mod Limits
pub mod Both
