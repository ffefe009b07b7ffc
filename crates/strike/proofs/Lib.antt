pub mod Struck
pub mod Example
