pub mod Frames
pub mod Made
pub mod Next
