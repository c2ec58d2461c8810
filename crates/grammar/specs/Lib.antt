pub mod Program
pub mod Grammar
pub mod Reader
pub mod Rows
pub mod Passing
