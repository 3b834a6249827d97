pub mod Standing
pub mod Riders
