pub mod Ready
pub mod Trees
