pub mod Checks
pub mod Names
