-- The lemmas that this crate hands out.
pub mod KeyLemmas
pub mod SlotLemmas
