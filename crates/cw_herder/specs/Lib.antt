pub mod Named
pub mod Operations
pub mod Submits
