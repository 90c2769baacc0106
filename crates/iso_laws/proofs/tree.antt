pub mod Changes
pub mod Entries
pub mod Holders
pub mod Moves
pub mod Isolation
pub mod Rows
