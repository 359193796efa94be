pub mod Assign
pub mod Rows
pub mod Slots
pub mod Returned
