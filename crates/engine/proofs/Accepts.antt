-- Which states and events are accepted.
pub mod Fits
pub mod Accepting
pub mod GoesOn
