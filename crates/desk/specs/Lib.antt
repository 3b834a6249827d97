pub mod Printing
pub mod AnswerBytes
