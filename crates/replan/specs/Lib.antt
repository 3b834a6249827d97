pub mod Relisting
pub mod Rechoosing
