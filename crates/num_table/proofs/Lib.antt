pub mod InOrder
pub mod Lists
pub mod Outcomes
pub mod Slots
pub mod Sums
