pub mod Changes
pub mod Written
pub mod Begins
pub mod Stands
pub mod Takes
pub mod Needs
