pub mod ReadLemmas
pub mod WriteLemmas
pub mod Groups
pub mod ListRoundTrip
pub mod Steps
pub mod WrittenRoundTrip
