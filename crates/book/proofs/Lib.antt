pub mod Grants
pub mod Curves
pub mod Sounds
