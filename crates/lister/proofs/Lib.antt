pub mod Written
pub mod Parts
pub mod Lines
pub mod Whole
pub mod Printed
pub mod Longest
pub mod Cases
pub mod Settled
