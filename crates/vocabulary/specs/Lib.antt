pub mod Answers
pub mod Alphabets
pub mod Codes
pub mod Methods
pub mod Ranges
pub mod Refusals
