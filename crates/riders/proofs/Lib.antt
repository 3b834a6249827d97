pub mod StandingLaws
pub mod CountedLaws
pub mod StepLaws
