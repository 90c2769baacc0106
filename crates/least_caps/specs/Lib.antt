pub mod Asks
pub mod Laws
pub mod Named
pub mod Narrowed
pub mod NarrowedStates
pub mod Stands
