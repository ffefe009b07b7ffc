pub mod Cuts
pub mod Hexadecimal
