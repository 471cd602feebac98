pub mod Finding
pub mod Wanting
pub mod Making
