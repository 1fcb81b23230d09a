pub mod Finding
pub mod Edges
pub mod Items
pub mod Beginning
