pub mod Absent
pub mod Crossing
pub mod Ever
pub mod Laws
pub mod Uncrossed
