pub mod Parts
pub mod Hexadecimal
pub mod Stores
pub mod WordsOfText
pub mod Determined
