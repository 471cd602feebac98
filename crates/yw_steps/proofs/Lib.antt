mod ItemFound
mod StartLaw
mod NetFound
mod EnterLaw
mod AddLaw
mod PostLaw
mod ExitLaw
mod Gathered
pub mod CompleteLaw
pub mod FromState
