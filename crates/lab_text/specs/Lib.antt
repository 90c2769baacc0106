pub mod Names
pub mod Lists
pub mod Policy
pub mod Text
pub mod Scan
pub mod Numbered
