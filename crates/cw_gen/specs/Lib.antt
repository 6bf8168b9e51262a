pub mod Draws
pub mod Directives
pub mod Lines
pub mod Scripts
pub mod Counts
pub mod Summary
pub mod Playing
pub mod Steady
