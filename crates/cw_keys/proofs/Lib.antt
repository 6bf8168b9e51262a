pub mod Choice
pub mod Cuts
pub mod Ascii
pub mod Keys
pub mod Texts
pub mod Values
pub mod PartKeys
pub mod Fitting
