pub mod Labels
pub mod Isolation
pub mod Rows
