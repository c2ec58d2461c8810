pub mod Chart
pub mod Kinds
pub mod Write
pub mod Rules
pub mod Shape
pub mod Words
pub mod Steps
