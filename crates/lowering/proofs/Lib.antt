pub mod RangedLaws
pub mod LoweringStepLaws
