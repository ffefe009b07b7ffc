-- What the machine reads before a refusal can be completed, and what it refuses cannot.
pub mod Refusal
pub mod Written
pub mod Growing
pub mod Tags
pub mod Steps
pub mod Finish
pub mod Completion
