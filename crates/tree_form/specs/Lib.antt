pub mod Commands
pub mod Form
