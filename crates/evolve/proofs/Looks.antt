-- Loops over the rows of a table, parts of the text that rows name, and the words of a view.
pub mod Clip
pub mod Looking
pub mod Also
pub mod Views
