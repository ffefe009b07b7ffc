pub mod Meanings
pub mod Ranges
pub mod Small
pub mod Bytes
pub mod Forms
pub mod Exact
pub mod Cases
pub mod Settled
