pub mod Logs
pub mod Write
pub mod Rewrite
pub mod World
pub mod Moments
pub mod Ending
pub mod Receipts
