pub mod Signs
pub mod Table
pub mod Exact
pub mod Folding
