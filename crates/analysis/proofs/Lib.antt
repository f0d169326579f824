pub mod Made
pub mod Frames
