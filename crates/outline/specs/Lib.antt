pub mod Rows
pub mod Paths
pub mod Places
