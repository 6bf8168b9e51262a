pub mod Walks
pub mod Decimals
pub mod SameLemmas
pub mod Lists
pub mod Rising
pub mod Sorted
pub mod ItemOrder
