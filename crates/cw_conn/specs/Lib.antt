pub mod Exchanges
pub mod Ends
pub mod Refusals
pub mod Talked
pub mod Steps
