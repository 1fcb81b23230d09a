pub mod Spanning
pub mod Searching
