pub mod Does
pub mod Cases
pub mod Values
pub mod Items
pub mod Stands
