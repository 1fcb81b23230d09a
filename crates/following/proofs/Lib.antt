pub mod Entering
pub mod Onward
