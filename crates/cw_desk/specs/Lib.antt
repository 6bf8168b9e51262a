pub mod Turns
pub mod Keeping
pub mod Comparing
