pub mod Flat
pub mod Boundary
