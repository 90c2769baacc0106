pub mod ResultLemmas
pub mod ReplyLemmas
pub mod CapWords
pub mod NameLemmas
