pub mod Sharing
pub mod Closing
pub mod Curves
pub mod Lent
pub mod Cases
pub mod Billing
pub mod Testing
pub mod Periods
