pub mod Checks
pub mod Loaded
pub mod Classes
pub mod Lists
pub mod Numbers
pub mod Parts
pub mod Tasks
