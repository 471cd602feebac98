pub mod Grown
pub mod Names
pub mod NetRead
pub mod Taken
