pub mod Told
pub mod Passing
