pub mod FirstCases
pub mod Reading
pub mod Records
