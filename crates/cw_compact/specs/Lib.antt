pub mod Lasts
pub mod Clean
pub mod Stored
pub mod Outcomes
pub mod Bodies
pub mod Filled
pub mod Left
