pub mod ByKind
pub mod Elements
pub mod Joining
pub mod Turning
pub mod Whole
