pub mod Banks
pub mod Ends
pub mod Digits
pub mod Lines
