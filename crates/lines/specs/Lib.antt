-- What the functions that make lines promise.
pub mod Lines
