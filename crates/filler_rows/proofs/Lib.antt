pub mod ByKind
pub mod Fillers
