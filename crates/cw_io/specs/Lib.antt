pub mod Told
pub mod Written
pub mod Calls
pub mod Shelf
pub mod Outlet
pub mod Memory
