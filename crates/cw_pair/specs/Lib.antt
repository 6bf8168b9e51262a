pub mod Pair
pub mod State
