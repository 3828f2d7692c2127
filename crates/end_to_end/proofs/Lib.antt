pub mod OnBytes
pub mod ByteRuns
pub mod OutputLines
pub mod RunFiles
pub mod Worked
