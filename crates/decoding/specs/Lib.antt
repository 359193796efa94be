pub mod Decode
pub mod Added
pub mod Round
