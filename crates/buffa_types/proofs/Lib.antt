-- The lemmas of this crate.
mod TypeUrlLemmas
