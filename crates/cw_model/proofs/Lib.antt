mod EmptyCluster
mod LeadersRefusals
pub mod Lines
pub mod Shorter
pub mod Stored
mod TwiceCommitted
