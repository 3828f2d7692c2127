pub mod BrokenSet
pub mod Tables
pub mod Accepted
pub mod Hearing
pub mod Records
pub mod Determined
