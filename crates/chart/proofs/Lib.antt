pub mod Lines
pub mod Fold
pub mod Rows
pub mod Worked
pub mod Promises
