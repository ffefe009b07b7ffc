pub mod Meaning
pub mod Image
pub mod Answers
pub mod Words
