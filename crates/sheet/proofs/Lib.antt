pub mod ReadingLaws
pub mod TextLaws
pub mod AdmissionLaws
pub mod NameLaws
pub mod RefusedLaws
pub mod ReturnedLaws
pub mod ReadingCallLaws
pub mod TextCaseLaws
