-- The words that this crate hands out.
pub mod SameSchema
pub mod OneOfClauses
pub mod MessagesInside
