pub mod Phases
pub mod Members
pub mod Group
pub mod Places
pub mod Circle
