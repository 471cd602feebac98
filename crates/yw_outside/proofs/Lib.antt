pub mod Images
pub mod Kept
pub mod Settled
pub mod Timed
pub mod Reading
