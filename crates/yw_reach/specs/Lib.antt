pub mod Flows
pub mod Marking
pub mod Renaming
pub mod Rows
pub mod Search
pub mod Trimming
pub mod Walks
