pub mod KeptCalls
pub mod Laws
pub mod Markers
pub mod Openings
pub mod Operations
pub mod QuietLaws
pub mod Requests
