pub mod Histories
pub mod Adding
pub mod Fronts
pub mod Configs
pub mod Shelved
pub mod Written
pub mod Sent
pub mod Removals
