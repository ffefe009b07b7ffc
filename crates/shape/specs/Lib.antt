pub mod Text
pub mod Bytes
pub mod Patterns
pub mod Bits
pub mod Numbers
pub mod Dates
pub mod Fields
pub mod Stored
