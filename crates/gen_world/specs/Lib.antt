pub mod Calls
pub mod Text
