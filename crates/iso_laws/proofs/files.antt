pub mod Descriptors
pub mod Changes
pub mod Closing
pub mod Closed
pub mod Opening
pub mod Pipes
pub mod Isolation
pub mod Rows
