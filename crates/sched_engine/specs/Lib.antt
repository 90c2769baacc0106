pub mod Programs
pub mod Reading
pub mod Reporting
pub mod Schedule
