pub mod Circle
pub mod Digits
pub mod Serving
pub mod Round
pub mod Slot
pub mod Rows
pub mod Exact
