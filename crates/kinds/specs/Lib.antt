pub mod Rule
pub mod Kinds
