pub mod Texts
pub mod Behind
pub mod Talks
pub mod Lasts
