-- The order of lines does not matter.
pub mod Reorder
pub mod Rearranging
