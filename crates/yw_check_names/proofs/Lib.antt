pub mod SeenLemmas
pub mod Trying
pub mod Thens
pub mod Arrows
