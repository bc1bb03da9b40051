pub mod Text
pub mod Rule
pub mod Answers
pub mod Outcome
pub mod Ready
pub mod Exact
