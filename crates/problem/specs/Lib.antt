pub mod Bytes
pub mod Listed
pub mod Verdict
pub mod Collected
pub mod Tables
pub mod Rendering
