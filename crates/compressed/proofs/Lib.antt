pub mod Gap
pub mod Accept
pub mod Laws
pub mod Exact
