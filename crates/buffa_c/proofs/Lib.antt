-- The lemmas of this crate.
pub mod PathLemmas
pub mod PlaceLemmas
