-- The words that this crate hands out.
pub mod Day
pub mod Place
