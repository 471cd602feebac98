pub mod Filtered
pub mod Nothing
pub mod Known
pub mod Chosen
pub mod Ended
pub mod Allowed
