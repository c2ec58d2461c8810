pub mod Chart
pub mod Import
pub mod Answers
pub mod Meaning
pub mod Fits
pub mod Promised
