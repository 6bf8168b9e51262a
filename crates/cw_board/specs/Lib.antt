pub mod Records
pub mod Books
pub mod Shelving
pub mod Sides
pub mod Pressing
pub mod Writing
pub mod Posting
pub mod Viewing
