-- Lines of the log, read and written.
pub mod Words
pub mod Long
pub mod Entries
pub mod Blocks
