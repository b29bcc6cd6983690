-- The lemmas of the laws.
mod OneOfLemmas
pub mod KeptLemmas
pub mod LevelLemmas
pub mod RecordLemmas
pub mod OptionLemmas
mod BlockLemmas
mod SpendingLemmas
pub mod InsideLemmas
