pub mod Pages
pub mod Values
