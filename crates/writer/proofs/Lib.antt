pub mod Laws
pub mod Settled
pub mod Lines
pub mod Charts
pub mod Goes
pub mod Made
