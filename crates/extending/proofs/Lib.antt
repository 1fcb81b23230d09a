-- Lemmas for the proofs of this crate: an operation read at an offset, operations carried out one after the other, and the report.
pub mod Reading
pub mod Running
pub mod Reporting
