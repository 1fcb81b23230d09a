-- Paper 01 as definitions. `Definitions` lists its parts in reading order; what is proved of them stands in proofs/.
pub mod Definitions
pub mod Computing
pub mod Examples
