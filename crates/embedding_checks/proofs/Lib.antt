pub mod Each
pub mod Loops
pub mod Here
pub mod StepsRight
