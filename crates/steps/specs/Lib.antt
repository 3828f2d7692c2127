pub mod Standings
pub mod Pointers
