-- The words that this crate hands out.
pub mod Frames
pub mod AtFront
pub mod FrameText
pub mod Delimited
pub mod Stream
