pub mod Feeds
pub mod Yield
pub mod Cut
