pub mod Log
pub mod Paper
