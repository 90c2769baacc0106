pub mod Follows
pub mod Labels
pub mod Laws
pub mod Unnamed
