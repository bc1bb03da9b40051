pub mod Algebra
pub mod Sizes
pub mod Typed
pub mod Folding
pub mod Pairs
pub mod Combining
