pub mod Forms
pub mod Entries
pub mod Transcript
pub mod Run
pub mod Promised
