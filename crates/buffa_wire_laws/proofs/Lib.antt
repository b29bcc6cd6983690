-- The lemmas of this crate.
mod EncodingBytes
mod FaultLemmas
mod FrontRest
mod PinLemmas
