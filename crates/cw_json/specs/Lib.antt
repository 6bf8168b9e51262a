pub mod Pairs
pub mod Plain
pub mod Props
pub mod Reading
pub mod Rising
pub mod Writing
pub mod Inserting
