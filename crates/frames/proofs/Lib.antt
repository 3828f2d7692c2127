pub mod Stores
pub mod Headers
pub mod Frames
pub mod Shown
pub mod Determined
