pub mod Kept
pub mod Masks
