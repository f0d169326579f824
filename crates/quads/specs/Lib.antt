pub mod Beside
pub mod Radix
pub mod Rows
