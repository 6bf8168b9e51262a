pub mod Order
pub mod Witnesses
pub mod Unready
pub mod Leaders
pub mod Quiet
pub mod Turned
pub mod Submitted
