pub mod Seen
pub mod Tried
pub mod NetNodes
pub mod Flows
pub mod Removals
