pub mod Ends
pub mod Kinds
