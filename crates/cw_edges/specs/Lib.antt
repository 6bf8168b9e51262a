pub mod Requests
pub mod Poured
pub mod Handing
