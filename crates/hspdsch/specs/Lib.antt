pub mod Rule
pub mod Outcome
pub mod Symbols
pub mod Exact
