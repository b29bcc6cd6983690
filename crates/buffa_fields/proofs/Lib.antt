-- The lemmas that this crate hands out.
pub mod RefusedMessageLemmas
pub mod ValueLemmas
pub mod ClosedEnumFieldLemmas
pub mod ClosedEnumListLemmas
pub mod InsideLemmas
pub mod FramingLemmas
pub mod SubmessageLemmas
pub mod GroupLemmas
pub mod ListLemmas
pub mod EntriesLemmas
pub mod MapLemmas
pub mod MapOfMessagesLemmas
pub mod OrderedLemmas
pub mod PackedLemmas
pub mod ClosedEnumMapLemmas
