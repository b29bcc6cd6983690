-- The words that this crate hands out.
pub mod Branch
pub mod NodeMeaning
pub mod NodeEncoding
pub mod Refused
pub mod Stops
