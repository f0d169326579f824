pub mod Buffer
pub mod Fold
pub mod Runs
