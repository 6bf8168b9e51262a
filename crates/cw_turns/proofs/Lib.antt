pub mod Begun
pub mod Going
pub mod Submitted
pub mod Scanned
pub mod Leaving
pub mod Spawned
pub mod Delivered
pub mod Journaled
