-- What is so of the answers on a chart's plan.
pub mod Demands
pub mod Outputs
pub mod Refusals
pub mod Traces
