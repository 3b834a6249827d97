pub mod ListedLaws
pub mod WishLaws
pub mod AsBeforeLaws
pub mod FitLaws
pub mod PrintingLaws
pub mod CaseLaws
