pub mod Playing
pub mod Targets
