pub mod Parts
pub mod Coming
pub mod Fronts
pub mod Commands
pub mod Loads
pub mod Entries
pub mod Completes
