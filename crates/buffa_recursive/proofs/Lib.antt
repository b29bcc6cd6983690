-- The lemmas that this crate hands out.
pub mod ListPassLemmas
pub mod OptionPassLemmas
pub mod DelimitedMergeLemmas
pub mod MemberTakeLemmas
pub mod MessagePassLemmas
pub mod FieldMergeLemmas
pub mod InitializedLemmas
