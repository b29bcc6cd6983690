-- The words that this crate hands out.
pub mod TypeUrl
pub mod Times
