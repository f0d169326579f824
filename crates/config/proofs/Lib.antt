pub mod Sound
pub mod Among
pub mod Longest
