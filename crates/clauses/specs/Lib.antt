pub mod Asked
pub mod Walk
pub mod Judged
pub mod Rows
pub mod Granted
