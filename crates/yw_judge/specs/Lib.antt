pub mod Taken
pub mod Ends
pub mod Counts
