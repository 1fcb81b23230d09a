pub mod Sizing
pub mod Sizes
