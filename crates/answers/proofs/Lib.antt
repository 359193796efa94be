pub mod Pieces
pub mod Told
pub mod Marking
pub mod OneWay
pub mod Turns
pub mod Ending
