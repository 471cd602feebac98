pub mod Lists
pub mod Rows
pub mod Loads
pub mod Renamed
pub mod Names
pub mod Judging
pub mod Standing
pub mod Items
