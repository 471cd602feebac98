pub mod Weights
pub mod Shape
pub mod Found
pub mod Lines
pub mod FaultLaws
pub mod FoundLaws
pub mod Bounds
