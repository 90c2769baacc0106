pub mod PieceLemmas
pub mod LineLaws
pub mod TextLaws
