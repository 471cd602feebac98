pub mod Built
pub mod Asked
