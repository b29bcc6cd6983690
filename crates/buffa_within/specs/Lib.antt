-- The words that this crate hands out.
pub mod Within
