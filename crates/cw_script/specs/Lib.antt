pub mod Words
pub mod Pairs
pub mod Table
pub mod Lines
pub mod Spelling
pub mod Faults
