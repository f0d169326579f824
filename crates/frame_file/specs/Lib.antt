pub mod File
pub mod Paper
