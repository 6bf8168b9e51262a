pub mod Taken
pub mod Poured
pub mod Gathered
pub mod Turns
pub mod Delivered
pub mod SinkTasks
