pub mod Sections
pub mod Heights
