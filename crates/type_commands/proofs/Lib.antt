-- Lemmas for the proofs of this crate: `Reading` for bytes of one type, `Storing` for the places that it is stored in.
pub mod Reading
mod Storing
