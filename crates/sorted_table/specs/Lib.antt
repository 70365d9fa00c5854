pub mod Orders
pub mod Entries
pub mod Searched
pub mod Merged
pub mod Tables
