-- What the proofs of several functions use.
pub mod Powers
pub mod Spelling
pub mod Written
