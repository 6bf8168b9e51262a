pub mod Last
pub mod Added
