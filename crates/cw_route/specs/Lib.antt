pub mod Table
pub mod Operations
pub mod Parts
pub mod Calls
pub mod Spelled
pub mod HeldNames
