pub mod Rule
pub mod Table
pub mod Outcome
pub mod Exact
pub mod Folding
