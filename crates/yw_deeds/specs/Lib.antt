pub mod Marks
pub mod Runs
pub mod Judging
pub mod Worklets
pub mod Exlets
