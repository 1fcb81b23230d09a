pub mod Going
pub mod Losing
