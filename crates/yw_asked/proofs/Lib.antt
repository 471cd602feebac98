pub mod Unbroken
pub mod Given
pub mod Fitting
pub mod ItemsAsked
pub mod TasksAsked
pub mod CasesAsked
pub mod TreesAsked
