pub mod Disk
pub mod Files
pub mod Memory
pub mod Told
pub mod Untold
