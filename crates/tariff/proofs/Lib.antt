pub mod January
