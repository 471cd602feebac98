pub mod Accepted
pub mod Texts
pub mod Lacking
