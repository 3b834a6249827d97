pub mod TimingStepLaws
