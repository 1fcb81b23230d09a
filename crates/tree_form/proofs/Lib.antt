pub mod Commands
pub mod FormTurns
pub mod Machines
