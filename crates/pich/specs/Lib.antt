pub mod Rule
pub mod Paging
pub mod Outcome
pub mod Exact
