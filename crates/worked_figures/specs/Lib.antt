pub mod Labels
pub mod Closes
pub mod Exchanges
