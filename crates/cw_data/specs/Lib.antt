pub mod Log
pub mod DataLog
pub mod Rows
pub mod Unmarked
pub mod Tables
pub mod Body
pub mod BodyReading
