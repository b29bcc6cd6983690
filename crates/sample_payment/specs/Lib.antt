-- The words that this crate hands out.
pub mod Payment
pub mod Transfer
