pub mod Butterflies
