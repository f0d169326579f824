pub mod Places
pub mod Halves
