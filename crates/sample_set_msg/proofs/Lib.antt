-- The lemmas of the laws.
mod PinLemmas
