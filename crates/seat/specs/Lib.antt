pub mod Settings
pub mod Fit
pub mod Calls
pub mod Words
