pub mod Graph
pub mod Nets
