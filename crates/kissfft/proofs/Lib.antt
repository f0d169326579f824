pub mod Judged
pub mod Directed
