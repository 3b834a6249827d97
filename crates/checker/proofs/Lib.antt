pub mod ListedLaws
pub mod JudgingLaws
pub mod CheckingLaws
pub mod OwnPlans
