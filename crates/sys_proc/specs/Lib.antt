pub mod Changing
pub mod IdKind
pub mod Playing
