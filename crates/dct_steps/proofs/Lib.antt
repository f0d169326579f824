pub mod Placed
pub mod Arms
