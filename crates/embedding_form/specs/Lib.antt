pub mod Commands
pub mod Left
pub mod States
