pub mod Alike
pub mod Laws
pub mod Scans
pub mod Ends
pub mod Order
pub mod Chain
