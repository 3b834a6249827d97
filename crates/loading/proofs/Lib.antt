pub mod StageLaws
pub mod TurnLaws
pub mod SkipLaws
pub mod BeginLaws
