pub mod Sent
pub mod Tallies
