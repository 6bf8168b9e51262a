pub mod Unread
pub mod Spelling
pub mod Reading
pub mod Input
pub mod Frames
