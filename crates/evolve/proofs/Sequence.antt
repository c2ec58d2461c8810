-- The views s0, s1, s2, .. of an evolution, and the trace of their situations.
pub mod Repeats
pub mod Onward
pub mod Tracing
pub mod Wrote
