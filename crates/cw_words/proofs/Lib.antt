pub mod Readings
pub mod Ranges
pub mod Locals
