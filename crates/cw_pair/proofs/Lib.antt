pub mod Harms
pub mod Judged
pub mod Pairs
pub mod Stretches
