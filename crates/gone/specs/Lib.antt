pub mod GonePart
pub mod Ready
