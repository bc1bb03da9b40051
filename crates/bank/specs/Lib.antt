pub mod Slots
pub mod Plain
pub mod Layout
pub mod Answers
pub mod Outcome
pub mod Exact
