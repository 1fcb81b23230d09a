pub mod Members
pub mod Nothing
