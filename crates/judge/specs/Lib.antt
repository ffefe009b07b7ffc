pub mod Values
pub mod Case
pub mod Records
pub mod Rows
pub mod Verdict
