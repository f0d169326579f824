pub mod Fft
