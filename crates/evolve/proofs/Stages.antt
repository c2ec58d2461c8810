-- What the loops that fire keep, and what a turn and an end make of it.
pub mod Kin
pub mod Firing
pub mod Seeking
pub mod Entering
