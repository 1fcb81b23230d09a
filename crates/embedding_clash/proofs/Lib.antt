pub mod Following
pub mod Arrays
pub mod ClashLaws
pub mod Turns
pub mod Searching
