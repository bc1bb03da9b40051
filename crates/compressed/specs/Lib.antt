pub mod Rule
pub mod Outcome
pub mod Ready
pub mod Exact
