pub mod Answers
pub mod Lengths
