pub mod Fields
pub mod Opened
pub mod Counts
