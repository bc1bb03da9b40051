pub mod Pilots
pub mod Laws
pub mod Accept
pub mod Frames
pub mod Exact
