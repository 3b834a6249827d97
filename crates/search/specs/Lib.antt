pub mod Setting
pub mod Shows
pub mod Parts
