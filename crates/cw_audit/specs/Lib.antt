pub mod Rising
pub mod Lines
pub mod Listed
pub mod Report
pub mod Audited
pub mod Rows
