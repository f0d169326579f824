pub mod Look
pub mod Entries
