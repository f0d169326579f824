pub mod Sooner
