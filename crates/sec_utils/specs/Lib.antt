pub mod Tools
pub mod Calls
pub mod Items
