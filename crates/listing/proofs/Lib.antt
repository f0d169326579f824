pub mod Found
pub mod Frames
pub mod Lines
pub mod Whole
