pub mod Accepting
pub mod Memory
