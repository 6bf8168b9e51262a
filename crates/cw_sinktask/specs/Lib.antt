pub mod Gathered
pub mod Sinks
