-- Runs, byte by byte and whole.
pub mod Turns
pub mod Whole
pub mod Chains
