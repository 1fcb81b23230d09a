-- What is proved of the definitions. `Statements` is the page of theorems.
pub mod Statements
pub mod Theorems
