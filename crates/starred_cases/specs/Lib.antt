pub mod Starred
pub mod Decimal
pub mod Written
pub mod Clashes
pub mod Operations
pub mod Reading
pub mod Counted
