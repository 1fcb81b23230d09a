-- What the functions that find digits promise.
pub mod Digits
