pub mod Dividing
pub mod Choosing
