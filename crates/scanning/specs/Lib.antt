pub mod Scanning
pub mod Finding
pub mod Laws
pub mod Spanning
