pub mod Names
pub mod Turns
pub mod Files
