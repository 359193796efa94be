pub mod Words
pub mod Body
pub mod Format
pub mod Reads
pub mod Bounds
