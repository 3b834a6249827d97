pub mod InAreas
pub mod Listing
pub mod Choosing
pub mod Outcome
pub mod SoFar
