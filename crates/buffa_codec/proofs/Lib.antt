-- The lemmas that this crate hands out.
pub mod FilteredLemmas
pub mod ListLemmas
pub mod PackLemmas
pub mod TurnLemmas
pub mod LastLemmas
pub mod TakesLemmas
pub mod CapacityLemmas
pub mod StrictLemmas
