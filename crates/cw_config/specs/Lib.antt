pub mod Records
pub mod View
pub mod Acceptance
pub mod Connectors
pub mod Compaction
pub mod Reserved
pub mod Rows
pub mod Tables
