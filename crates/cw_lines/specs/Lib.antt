pub mod Lines
pub mod Plays
pub mod Players
pub mod Sessions
pub mod Due
pub mod Drives
