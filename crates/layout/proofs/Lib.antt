pub mod LineLaws
pub mod LengthLaws
pub mod CaseLaws
