pub mod Widths
pub mod Visiting
pub mod Frames
pub mod Totals
