pub mod Texts
pub mod Asking
pub mod Loans
