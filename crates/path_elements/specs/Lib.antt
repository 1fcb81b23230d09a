pub mod PathElements
