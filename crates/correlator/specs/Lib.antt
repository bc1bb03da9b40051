pub mod Complexes
pub mod Rule
pub mod Method
