pub mod Stands
pub mod Starts
pub mod Enters
pub mod Adds
pub mod Exits
pub mod Completes
