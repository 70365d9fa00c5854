pub mod Weights
pub mod Rules
pub mod Profiles
