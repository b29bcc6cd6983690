-- The lemmas that this crate hands out.
pub mod ReplayLemmas
pub mod MergeLemmas
pub mod StrictLemmas
