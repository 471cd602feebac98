pub mod Gathers
pub mod Lines
pub mod Names
pub mod Standing
pub mod Written
