pub mod Ledgers
pub mod LoadLaw
