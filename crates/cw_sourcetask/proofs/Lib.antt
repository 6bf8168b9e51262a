pub mod Many
pub mod Batches
pub mod Scanned
pub mod Handed
