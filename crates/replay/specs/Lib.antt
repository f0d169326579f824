pub mod Unused
pub mod Steps
