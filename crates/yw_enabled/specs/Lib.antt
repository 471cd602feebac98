pub mod Free
pub mod Left
pub mod Entered
pub mod Items
pub mod Steps
