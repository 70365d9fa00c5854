pub mod Dates
pub mod Digits
pub mod Hours
pub mod Tables
pub mod Texts
