-- Lemmas for the proofs of this crate: `Commands` for the command at an offset, `Loop` for a loop that runs one of the model's
-- machines, `FormMachine` for the machine of check 2.
mod Commands
pub mod Loop
pub mod FormMachine
