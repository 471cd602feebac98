pub mod Counts
pub mod Loose
pub mod Moved
pub mod Next
