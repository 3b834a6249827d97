pub mod SettingLaws
pub mod ShowsLaws
pub mod PartsLaws
pub mod RoundLaws
pub mod RunLaws
