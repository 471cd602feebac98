pub mod Entries
pub mod Idents
