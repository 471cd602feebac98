pub mod Plain
pub mod Worklets
