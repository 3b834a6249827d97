pub mod Orderly
pub mod ToLoad
pub mod Turns
pub mod Stage
