pub mod Rule
pub mod Outcome
pub mod Exact
pub mod Method
