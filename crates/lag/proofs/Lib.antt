pub mod Accepted
pub mod Parts
pub mod Theorems
pub mod Determined
