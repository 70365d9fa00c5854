pub mod Lookups
pub mod Loads
