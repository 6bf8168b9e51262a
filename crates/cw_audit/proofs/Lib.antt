pub mod Risen
pub mod Walks
pub mod Members
pub mod ListedLemmas
pub mod IdTexts
pub mod Ends
pub mod Sizes
