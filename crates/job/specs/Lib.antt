pub mod Faults
pub mod Answers
pub mod Rule
pub mod Outcome
pub mod Printed
pub mod Windows
pub mod Exact
