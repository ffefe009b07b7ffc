pub mod Lines
pub mod Ranges
pub mod Rules
pub mod Settled
