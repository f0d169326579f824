pub mod Loudest
