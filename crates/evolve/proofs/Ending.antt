-- How an evolution ends: what the search finds, that it is found with no memory of what was passed, and demand 3 of it.
pub mod Says
pub mod Orbit
pub mod Pigeon
pub mod Coded
pub mod Compared
pub mod Demands
pub mod Together
