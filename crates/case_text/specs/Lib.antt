-- What the functions that print cases promise.
pub mod Hexadecimal
