pub mod Length
pub mod Rule
pub mod Outcome
pub mod Exact
