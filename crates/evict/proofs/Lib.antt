pub mod PopLaws
pub mod StepLaws
pub mod LoopLaws
