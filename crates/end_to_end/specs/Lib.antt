pub mod OnBytes
pub mod RunFiles
