pub mod Rows
pub mod Read
