pub mod Laws
pub mod Accept
pub mod Exact
