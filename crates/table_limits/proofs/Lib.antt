-- Lemmas for the proofs of this crate: `LimitMachine` for the machine of check 3, `BothMachine` for that of checks 2 and 3 at once.
mod LimitMachine
mod BothMachine
