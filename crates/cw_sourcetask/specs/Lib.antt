pub mod Sourced
