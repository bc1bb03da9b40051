pub mod Checks
pub mod Fours
pub mod Channel
pub mod Exact
pub mod Demand3
