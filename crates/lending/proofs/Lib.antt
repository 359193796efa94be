pub mod SheetLoans
