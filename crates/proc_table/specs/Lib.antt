pub mod Children
pub mod Lending
pub mod Procs
