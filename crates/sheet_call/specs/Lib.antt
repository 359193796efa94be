pub mod Printed
pub mod Replied
