pub mod Proper
pub mod First
pub mod Load
