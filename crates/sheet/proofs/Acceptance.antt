-- What the grammar makes the machine accepts, and a sheet is written from one tree only.
pub mod Passage
pub mod Parts
pub mod Tags
pub mod Opening
pub mod Sizes
pub mod Filled
pub mod Elements
pub mod Accepts
pub mod Split
pub mod Same
pub mod Begins
pub mod Unambiguous
