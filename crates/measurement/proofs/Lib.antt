pub mod Made
pub mod Verdicts
