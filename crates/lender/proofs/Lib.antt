pub mod Directories
pub mod Settled
