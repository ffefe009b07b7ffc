pub mod Machine
pub mod Strike
