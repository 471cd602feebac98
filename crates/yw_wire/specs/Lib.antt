pub mod Faults
pub mod Listed
pub mod Sent
pub mod Steps
