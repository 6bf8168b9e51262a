pub mod Items
pub mod Quota
pub mod Plan
pub mod Valid
pub mod Settled
