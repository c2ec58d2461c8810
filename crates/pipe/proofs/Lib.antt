pub mod Pages
pub mod Feeding
