-- Laws of lower lists, by steps.
pub mod StepLaws
pub mod LowerSteps
