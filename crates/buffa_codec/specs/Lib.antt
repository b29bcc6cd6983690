-- The words that this crate hands out.
pub mod RecordsOfNumber
pub mod Packed
pub mod Decoded
pub mod CodecFacts
pub mod PackedFacts
pub mod Strict
pub mod StrictFacts
