-- The lemmas that this crate hands out.
pub mod WithinLemmas
