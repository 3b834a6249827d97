pub mod FillLaws
pub mod WellLaws
pub mod BehindLaws
pub mod ReadyLaws
