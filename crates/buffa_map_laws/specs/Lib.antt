-- The words that this crate hands out.
pub mod Laws
pub mod LeftOpen
pub mod LeftOpenEncodings
pub mod EntriesOfScalars
pub mod CodecWords
pub mod EntryWords
pub mod FieldWords
