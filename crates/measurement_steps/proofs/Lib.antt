pub mod Sums
pub mod Filled
pub mod Peaks
pub mod Bands
