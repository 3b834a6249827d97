pub mod Ranged
pub mod SoFar
