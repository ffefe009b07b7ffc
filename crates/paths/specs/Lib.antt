pub mod Tree
pub mod Survey
