pub mod Owners
pub mod Placed
pub mod Slots
pub mod Grown
