pub mod Outboxes
pub mod OutboxLaw
