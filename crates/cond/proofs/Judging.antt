-- The answers about a condition's bytes.
pub mod Lowest
pub mod Table
pub mod Unseen
