pub mod Results
pub mod Steps
pub mod Answers
pub mod Working
pub mod Low
pub mod Limits
pub mod Traces
