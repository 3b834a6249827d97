pub mod State
pub mod Fit
pub mod LeftBy
pub mod Calls
pub mod Advance
pub mod AnyCalls
