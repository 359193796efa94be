pub mod Cases
pub mod Records
