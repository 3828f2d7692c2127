pub mod Stores
pub mod Takes
pub mod Determined
