pub mod Counts
pub mod Frames
pub mod Kept
pub mod Names
pub mod Texts
pub mod Writable
