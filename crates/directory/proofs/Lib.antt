pub mod Finds
pub mod Folds
pub mod Gathers
pub mod Settled
