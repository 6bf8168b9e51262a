pub mod Running
pub mod Turns
pub mod Stages
pub mod Proposed
pub mod Polled
