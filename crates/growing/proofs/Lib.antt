pub mod Following
pub mod ByKind
pub mod Members
pub mod FirstSteps
