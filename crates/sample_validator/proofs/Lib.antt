-- The lemmas that this crate hands out.
mod OptionLemmas
mod ListLemmas
pub mod PinLemmas
