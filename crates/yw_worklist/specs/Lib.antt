pub mod Fronts
pub mod Lists
pub mod Names
pub mod Offers
pub mod People
pub mod Pools
pub mod Rows
pub mod Touched
