pub mod Repeats
pub mod Operands
