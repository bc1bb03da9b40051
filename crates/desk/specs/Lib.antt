pub mod Rule
pub mod Answers
pub mod Outcome
pub mod Method
pub mod Exact
