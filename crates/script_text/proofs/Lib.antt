pub mod ArgumentLemmas
pub mod LineLemmas
pub mod LineLaws
pub mod ToolLemmas
pub mod CallLemmas
pub mod StepLaws
pub mod StepLemmas
