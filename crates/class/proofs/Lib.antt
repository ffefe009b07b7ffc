pub mod Examples
pub mod Named
pub mod Performed
pub mod Pieces
pub mod Settled
