pub mod Comparing
pub mod Answering
