pub mod Kernel
pub mod Reports
pub mod Starts
