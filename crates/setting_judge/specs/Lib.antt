pub mod Judging
pub mod Laws
