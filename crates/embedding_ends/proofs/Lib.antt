pub mod EndLaws
pub mod StepLaws
pub mod AgreeLaws
