pub mod Keys
pub mod Made
pub mod Places
