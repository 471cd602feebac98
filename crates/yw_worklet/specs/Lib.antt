pub mod Named
pub mod Begins
pub mod Chosen
pub mod Ends
pub mod Stands
