pub mod Rows
pub mod Symbols
pub mod Laws
pub mod FirstChildren
