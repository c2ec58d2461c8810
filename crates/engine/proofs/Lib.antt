pub mod Calls
pub mod Answers
pub mod Orders
pub mod Accepts
pub mod Worked
pub mod Promises
