-- Words gathered from lines: the order of lines does not matter, and which line shows an output.
pub mod Order
pub mod Shown
