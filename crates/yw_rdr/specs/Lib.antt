pub mod Rules
pub mod Links
pub mod Attached
pub mod Item
