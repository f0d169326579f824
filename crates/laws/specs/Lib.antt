pub mod Lists
pub mod Passes
pub mod Numbers
pub mod Greatest
pub mod Exact
