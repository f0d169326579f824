pub mod Products
pub mod Rank
pub mod Answers
