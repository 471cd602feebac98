pub mod Answered
pub mod Sessions
