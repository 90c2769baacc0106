pub mod ExecLemmas
pub mod Within
