pub mod Faults
pub mod WindowLines
pub mod TrainLines
pub mod OrderLines
