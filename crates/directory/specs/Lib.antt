pub mod Directory
pub mod Gathering
