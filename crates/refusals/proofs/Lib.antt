pub mod Verdicts
pub mod Energies
pub mod Clears
