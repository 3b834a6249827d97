pub mod InAreasLaws
pub mod AnsweredCallLaws
pub mod ListingLaws
pub mod ChoosingLaws
pub mod SoFarLaws
pub mod RunningLaws
pub mod ChoiceRoundLaws
