pub mod Counting
pub mod DecidesLaws
pub mod CountingLaws
pub mod SignedLaws
pub mod ListLaws
pub mod Over
pub mod OverLaws
pub mod OneMoreLaws
