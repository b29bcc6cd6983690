-- The lemmas that this crate hands out.
pub mod NormalLemmas
mod FieldLemmas
mod NumberLemmas
pub mod PassedLemmas
pub mod TripLemmas
mod KeepLemmas
mod AlikeLemmas
mod TreeLemmas
mod TreeNormalLemmas
mod TreeRefusedLemmas
mod PinLemmas
mod PassPinLemmas
mod MergedLemmas
mod CountLemmas
mod CensusLemmas
