pub mod Ending
pub mod Forking
pub mod Isolation
pub mod Rows
