pub mod Adding
pub mod Lines
pub mod Refusing
pub mod Rounds
