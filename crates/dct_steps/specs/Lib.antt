pub mod Dct
