pub mod Exported
pub mod InNumbers
pub mod ExportedBound
pub mod ExportedPlanning
