pub mod Twiddles
pub mod Tables
pub mod Circle
pub mod Turns
pub mod Rules
