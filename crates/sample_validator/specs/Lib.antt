-- The words that this crate hands out.
pub mod Options
pub mod Meaning
pub mod Rules
pub mod Pinned
