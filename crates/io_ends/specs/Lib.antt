pub mod Faults
pub mod Ends
pub mod Whole
pub mod LinesState
pub mod Lines
pub mod Seeking
pub mod Memory
pub mod Files
