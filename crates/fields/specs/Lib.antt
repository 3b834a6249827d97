pub mod Texts
pub mod Fields
pub mod Numbers
pub mod Names
pub mod NamePlaces
