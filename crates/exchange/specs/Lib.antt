pub mod Exchange
pub mod Told
pub mod Law
