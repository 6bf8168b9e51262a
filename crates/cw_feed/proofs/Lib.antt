pub mod Lines
pub mod Cuts
pub mod Lookups
pub mod Joined
pub mod CutLaws
pub mod YieldLaws
