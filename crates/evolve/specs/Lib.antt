pub mod Words
pub mod Net
pub mod Evolution
pub mod Demand
pub mod Trace
-- ways of the code
pub mod Search
pub mod Table
pub mod Parts
-- ways of the proofs
pub mod Orbit
pub mod Laws
