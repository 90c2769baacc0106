pub mod Caps
pub mod Names
pub mod CapSets
pub mod Words
pub mod RoundTrips
