pub mod PrintedLines
pub mod ModelTold
pub mod AnswersTold
pub mod Inputs
