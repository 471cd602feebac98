pub mod Agreeing
pub mod Behind
pub mod Changing
pub mod Counting
pub mod Following
pub mod Items
pub mod Leaving
pub mod Staying
