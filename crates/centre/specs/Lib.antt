pub mod Answers
pub mod Calls
pub mod Submit
pub mod Slips
pub mod Words
