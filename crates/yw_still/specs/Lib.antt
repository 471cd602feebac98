pub mod Still
pub mod Looked
