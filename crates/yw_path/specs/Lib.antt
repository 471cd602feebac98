pub mod Bits
pub mod Rows
pub mod Direct
pub mod Places
pub mod Upstream
pub mod Waiting
