pub mod Ranges
pub mod Reading
pub mod Words
pub mod Reply
pub mod Faults
