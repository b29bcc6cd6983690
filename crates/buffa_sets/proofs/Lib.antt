-- The lemmas that this crate hands out.
pub mod FieldLemmas
pub mod MergeLemmas
pub mod EncodingLemmas
