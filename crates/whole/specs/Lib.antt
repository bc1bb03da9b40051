pub mod Sum
pub mod Equal
pub mod Bound
