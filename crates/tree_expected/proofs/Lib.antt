pub mod Rests
pub mod ExpectedTurns
