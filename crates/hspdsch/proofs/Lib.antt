pub mod Laws
pub mod Symbols
pub mod Checks
pub mod Exact
