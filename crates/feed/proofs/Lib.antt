pub mod Pieces
pub mod Calls
pub mod Whole
pub mod Determined
