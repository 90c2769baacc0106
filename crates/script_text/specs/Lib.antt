pub mod Reading
pub mod Argument
pub mod Calls
pub mod Tools
pub mod Line
pub mod StepWords
pub mod Step
