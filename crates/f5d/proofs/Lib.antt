mod Clocks
pub mod Fields
mod FileNames
pub mod Files
pub mod Going
mod Knowing
pub mod Leading
pub mod Lines
mod Marked
mod NameTexts
pub mod Names
mod Stepping
mod Tries
pub mod Turns
pub mod Written
mod Writing
