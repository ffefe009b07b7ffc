pub mod Named
pub mod Nodes
pub mod Settled
pub mod Surveyed
pub mod Table
pub mod Walked
pub mod Whole
