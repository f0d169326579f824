pub mod Columns
pub mod Local
