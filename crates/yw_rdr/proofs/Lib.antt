pub mod Going
pub mod Growing
pub mod ItemValues
pub mod Taken
pub mod Texts
pub mod Zipped
