pub mod Laws
pub mod Bars
pub mod Runs
pub mod Exact
pub mod Antenna2
pub mod Blocks
