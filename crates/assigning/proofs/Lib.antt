pub mod Ordered
pub mod Pushed
pub mod Valuing
pub mod Refusing
