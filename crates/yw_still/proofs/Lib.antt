pub mod Numbers
pub mod Joining
pub mod Quiet
pub mod TasksGoOn
pub mod ItemsGoOn
pub mod Urgent
pub mod Looking
pub mod OtherCases
