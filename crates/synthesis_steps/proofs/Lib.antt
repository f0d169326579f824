pub mod Lists
pub mod Places
pub mod Mirrors
pub mod Unfold
pub mod Lengths
