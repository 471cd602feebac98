pub mod NetFound
pub mod Bounded
