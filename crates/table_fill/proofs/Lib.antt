pub mod Members
pub mod FillRounds
