pub mod Past
pub mod Exact
pub mod Heads
