pub mod Rooms
pub mod Continuation
pub mod Shapes
pub mod Turns
