pub mod Grows
pub mod Sums
pub mod Answers
