-- The lemmas of this crate.
pub mod LawLemmas
pub mod PathLemmas
pub mod PlaceLemmas
