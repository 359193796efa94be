pub mod Lines
pub mod Scan
pub mod Bounds
pub mod Words
