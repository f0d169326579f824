pub mod Within
pub mod Size
pub mod Growth
