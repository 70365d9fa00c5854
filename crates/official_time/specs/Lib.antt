pub mod Dates
pub mod HourKeys
pub mod Hours
pub mod Texts
