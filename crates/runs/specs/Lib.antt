pub mod Memory
pub mod Calls
pub mod Runs
pub mod Laws
pub mod Plans
