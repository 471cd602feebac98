pub mod Parents
pub mod Sites
pub mod Above
pub mod Nets
