pub mod Cap
pub mod CapSet
pub mod State
pub mod FileCaps
pub mod Word
pub mod Laws
