-- The words that this crate hands out.
pub mod SetsAndClears
pub mod Defaults
pub mod Messages
pub mod MessageFacts
pub mod Strict
pub mod StrictFacts
