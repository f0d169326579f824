pub mod Energy
pub mod Peak
pub mod Singles
