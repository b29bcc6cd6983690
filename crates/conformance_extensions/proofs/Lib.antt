-- The lemmas that this crate hands out.
pub mod NormalLemmas
pub mod FrontLemmas
