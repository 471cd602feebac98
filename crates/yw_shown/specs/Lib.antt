pub mod Rows
pub mod Shows
pub mod Tokens
