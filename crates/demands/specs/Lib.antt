pub mod Calls
pub mod Refusals
pub mod Messages
pub mod Seats
pub mod Sums
pub mod EasilyWrong
