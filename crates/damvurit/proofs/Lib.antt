pub mod Called
pub mod Details
pub mod FlatDirectories
pub mod Formed
pub mod Meant
pub mod Settled
