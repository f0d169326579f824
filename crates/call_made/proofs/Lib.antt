pub mod Lends
pub mod Answers
