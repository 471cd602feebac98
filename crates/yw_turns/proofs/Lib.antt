pub mod RunningOut
pub mod Entries
