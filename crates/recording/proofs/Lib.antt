pub mod RecordingStepLaws
