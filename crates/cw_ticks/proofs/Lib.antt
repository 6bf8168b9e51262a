pub mod Lists
pub mod Stages
pub mod Reported
pub mod Chosen
pub mod Faultless
pub mod TaskSets
pub mod TaskRecords
