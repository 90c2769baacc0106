pub mod Lending
pub mod Place
pub mod Slots
