-- The lemmas that this crate hands out.
pub mod RecordLemmas
pub mod ByValueLemmas
pub mod EncodingLemmas
pub mod ReadLemmas
pub mod LoopLemmas
pub mod ParseLemmas
pub mod JoinLemmas
pub mod MessageLemmas
pub mod InsideLemmas
pub mod PassLemmas
mod LeaveLemmas
pub mod SpentLemmas
pub mod ByFieldLemmas
pub mod CostLemmas
pub mod TakesLemmas
pub mod ByPayloadLemmas
pub mod MergeLoopLemmas
pub mod KeepLemmas
pub mod ShortLemmas
pub mod ValidLemmas
