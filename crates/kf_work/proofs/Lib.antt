pub mod Spread
pub mod Plan
pub mod Stages
pub mod Parts
pub mod Packed
pub mod Leaves
pub mod Sizes
