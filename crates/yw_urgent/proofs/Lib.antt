pub mod Concluded
pub mod Coming
pub mod Single
pub mod Looking
pub mod Lent
