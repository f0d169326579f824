pub mod Work
pub mod Sized
pub mod Packed
pub mod Lent
