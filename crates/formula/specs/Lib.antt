pub mod Visits
pub mod Effects
pub mod Rows
pub mod Sizes
