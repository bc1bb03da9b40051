pub mod Put
pub mod Words
pub mod Values
pub mod Checks
pub mod Answers
pub mod Records
pub mod Exact
