pub mod Alterations
pub mod Bodies
pub mod Placed
pub mod View
