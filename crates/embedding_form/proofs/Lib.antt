pub mod Bytes
pub mod Turns
pub mod Machines
pub mod Types
pub mod Forms
pub mod Counts
