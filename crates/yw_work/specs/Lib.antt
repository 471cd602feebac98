pub mod Exits
pub mod Holds
pub mod Listed
pub mod Open
pub mod Rows
pub mod Rules
pub mod Shows
pub mod Tops
