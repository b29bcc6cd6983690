-- The lemmas that this crate hands out.
mod NodeHeldLemmas
mod NodeSchemaLemmas
mod NodeReadLemmas
mod NodeWrittenLemmas
mod NodeBackLemmas
mod NodeRefusedLemmas
mod NodeNormalLemmas
pub mod StopLemmas
