pub mod Laws
pub mod Ring
pub mod Sum
pub mod Equal
pub mod Bound
pub mod Bits
