-- Lemmas for the proofs of this crate: `Machines` for the machines of both checks, `Chosen` for the flags of check 5.
mod Machines
mod Chosen
