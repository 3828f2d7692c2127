pub mod Run
pub mod Statement
