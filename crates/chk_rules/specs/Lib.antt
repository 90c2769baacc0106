pub mod CheckLog
pub mod RowSteps
