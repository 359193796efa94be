pub mod Scanning
pub mod Rendering
pub mod Written
pub mod Places
pub mod Tails
