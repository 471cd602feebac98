pub mod State
pub mod Tried
pub mod Here
pub mod Held
