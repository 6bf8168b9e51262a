pub mod Statuses
pub mod Opening
pub mod Outcomes
pub mod Making
pub mod Audited
pub mod Generated
pub mod Served
pub mod Ended
