pub mod Runs
pub mod Digits
pub mod Takes
pub mod Settled
pub mod Examples
pub mod Written
pub mod ReadBack
