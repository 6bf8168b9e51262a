pub mod Statuses
pub mod Records
pub mod Table
pub mod Compaction
