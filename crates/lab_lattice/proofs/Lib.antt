pub mod CatSets
pub mod Grades
pub mod Words
pub mod Pairs
pub mod Labels
