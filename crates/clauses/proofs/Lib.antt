pub mod Rows
pub mod Granting
pub mod Walks
