pub mod EntryLemmas
pub mod StandLemmas
