pub mod Entries
pub mod Compared
pub mod Merging
pub mod Putting
pub mod Steps
pub mod Passes
pub mod Placing
pub mod Answering
