pub mod Opens
pub mod Entries
pub mod Items
