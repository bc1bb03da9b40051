pub mod Rule
pub mod Outcome
pub mod Exact
pub mod Antenna2
pub mod Blocks
