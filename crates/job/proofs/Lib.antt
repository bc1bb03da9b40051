pub mod Checks
pub mod Headed
pub mod Windows
pub mod Exact
