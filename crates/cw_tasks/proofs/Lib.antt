pub mod Told
pub mod Staying
pub mod Stepped
