pub mod Grammar
pub mod Words
pub mod Judging
pub mod Promises
