pub mod Clauses
pub mod Parsed
pub mod Written
pub mod Reading
