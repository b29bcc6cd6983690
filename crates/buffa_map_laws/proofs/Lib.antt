-- The lemmas of this crate, of which PinLemmas and PinEncodingLemmas are handed out.
mod ClassLemmas
mod CodecWordLemmas
mod EntryWordLemmas
mod FieldWordLemmas
mod FrontLemmas
pub mod PinEncodingLemmas
pub mod PinLemmas
mod PlainLemmas
mod RewriteLemmas
mod RunLawLemmas
