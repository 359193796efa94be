pub mod Printed
pub mod Written
pub mod Asked
pub mod Lent
