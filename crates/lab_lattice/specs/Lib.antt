pub mod Number
pub mod Cats
pub mod Grade
pub mod Word
pub mod Pair
pub mod Dual
pub mod Label
pub mod Laws
