pub mod Descriptions
pub mod Fds
pub mod Fifo
pub mod Files
pub mod Lending
pub mod Pipes
pub mod Taken
pub mod Uses
