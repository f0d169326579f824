pub mod Parts
pub mod Buffers
pub mod Folds
