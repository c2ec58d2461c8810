pub mod Lists
pub mod Answers
pub mod Faults
pub mod Parts
pub mod Tallies
pub mod Latches
pub mod Judging
