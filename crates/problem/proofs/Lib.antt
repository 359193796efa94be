pub mod Refused
pub mod Scans
pub mod Lawful
pub mod Unders
pub mod Collecting
pub mod Stated
pub mod Rendered
pub mod Bytewise
