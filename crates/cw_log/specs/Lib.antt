pub mod Log
pub mod Calls
pub mod State
pub mod Compaction
