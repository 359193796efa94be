pub mod Rendering
pub mod Answered
pub mod Following
