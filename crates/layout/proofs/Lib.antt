pub mod Parts
pub mod RowLaws
pub mod Seats
pub mod Rooms
pub mod Settled
