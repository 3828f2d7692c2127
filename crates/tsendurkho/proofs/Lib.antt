pub mod Accepted
pub mod Buffers
pub mod Determined
