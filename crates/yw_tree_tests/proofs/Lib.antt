pub mod Drawing
pub mod Growing
