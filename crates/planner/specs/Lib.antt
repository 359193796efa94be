pub mod Encoded
pub mod Steps
