-- The words that this crate hands out.
pub mod Set
pub mod SetFacts
pub mod Terms
