pub mod Pairs
pub mod Texts
pub mod Written
pub mod Inserting
