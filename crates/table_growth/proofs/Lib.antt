-- Lemmas for the proofs of this crate: members stored and named, what is kept with a new type, and answers.
pub mod Naming
pub mod Joining
pub mod Keeping
pub mod Appending
pub mod Growing
