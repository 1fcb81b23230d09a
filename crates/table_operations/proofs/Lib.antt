-- Lemmas for the proofs of this crate: from what an operation finds to what it promises.
mod Operating
