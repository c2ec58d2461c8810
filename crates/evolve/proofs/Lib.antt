pub mod Sequence
pub mod Ending
pub mod Lines
pub mod Looks
pub mod Stages
pub mod Promises
