pub mod Isolation
pub mod Rows
