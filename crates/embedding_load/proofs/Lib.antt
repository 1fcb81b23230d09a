pub mod Continuation
pub mod Rooms
pub mod Shapes
pub mod Sources
pub mod Turns
