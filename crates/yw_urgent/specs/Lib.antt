pub mod Urgent
pub mod Here
pub mod Events
pub mod Trees
