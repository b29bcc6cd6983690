-- The lemmas of this crate.
mod BoundLemmas
mod CodecPinLemmas
mod EqualStepLemmas
mod ExtensionPinLemmas
mod FrontLemmas
mod GrammarLemmas
mod HistoryLemmas
mod ItemPinLemmas
mod JoinLemmas
mod MessageWordLemmas
mod OrderLemmas
mod PackedFaultLemmas
mod StrictPinLemmas
mod ThroughLemmas
