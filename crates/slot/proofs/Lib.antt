pub mod Laws
pub mod Ends
pub mod Accept
pub mod Rows
pub mod Exact
pub mod Answers
