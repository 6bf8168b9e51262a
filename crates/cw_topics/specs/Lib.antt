pub mod Statuses
pub mod Offsets
pub mod Topics
pub mod Configs
pub mod Entries
pub mod Replaying
pub mod Left
