pub mod Rule
pub mod Simulated
pub mod Outcome
pub mod Exact
