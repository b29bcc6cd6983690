-- The lemmas that this crate hands out.
pub mod ItemLemmas
pub mod ItemEncodingLemmas
pub mod GroupLemmas
