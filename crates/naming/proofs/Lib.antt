pub mod Laws
pub mod Tables
pub mod Limited
pub mod Lists
