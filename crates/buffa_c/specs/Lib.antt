-- The words that this crate hands out.
pub mod Answers
pub mod Encodings
pub mod Members
pub mod Places
