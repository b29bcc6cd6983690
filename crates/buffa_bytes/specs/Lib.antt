-- The words that this crate hands out.
pub mod Scan
pub mod Readings
pub mod ErrorText
pub mod Pieces
pub mod Adapted
pub mod Written
pub mod Varint
pub mod Join
pub mod Number
pub mod Field
pub mod Unread
pub mod PayloadValue
pub mod Values
pub mod Scalars
pub mod Delimited
pub mod Plain
pub mod Pinned
