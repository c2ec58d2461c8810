pub mod Putting
pub mod Inverse
pub mod Promises
