pub mod ItemLemmas
pub mod LineLemmas
pub mod ProgramLemmas
pub mod Progress
pub mod ScheduleLemmas
pub mod TextLemmas
