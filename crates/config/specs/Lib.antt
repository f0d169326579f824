pub mod Config
pub mod Tables
pub mod Sound
