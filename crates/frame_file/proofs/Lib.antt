pub mod Signed
pub mod Marks
