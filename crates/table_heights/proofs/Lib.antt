pub mod Members
pub mod Rounds
pub mod Words
