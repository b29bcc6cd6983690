-- The words that this crate hands out.
pub mod Letters
pub mod Fields
pub mod FieldsFacts
pub mod Numbers
pub mod Count
pub mod CountFacts
pub mod Passed
pub mod RoundTrip
pub mod Trees
pub mod Pinned
pub mod Census
