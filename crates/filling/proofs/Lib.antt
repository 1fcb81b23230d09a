pub mod Exits
pub mod Images
pub mod Taking
