pub mod Numbers
pub mod Bytes
pub mod Several
pub mod Written
pub mod Readable
pub mod Shaped
pub mod Plain
pub mod Ruled
