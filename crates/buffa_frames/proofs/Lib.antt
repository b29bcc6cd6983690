-- The lemmas that this crate hands out.
pub mod SpellingLemmas
pub mod FrontLemmas
pub mod StreamLemmas
pub mod DelimitedLemmas
pub mod LawLemmas
pub mod WholeLemmas
