pub mod Spaces
pub mod Runs
pub mod Tops
pub mod Bodies
pub mod Sayings
pub mod Walking
