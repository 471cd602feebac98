pub mod HereLaw
pub mod Trying
