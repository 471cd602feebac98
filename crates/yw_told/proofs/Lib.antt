pub mod Parts
pub mod Lines
pub mod Written
pub mod Fixed
pub mod Reading
pub mod Steps
pub mod Entries
