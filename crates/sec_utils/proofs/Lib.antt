pub mod ItemLaws
pub mod LineLemmas
pub mod ToolLaws
