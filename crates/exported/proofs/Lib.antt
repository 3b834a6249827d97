pub mod ExportedLaws
pub mod ExportedBoundLaws
pub mod ExportedPlanningLaws
