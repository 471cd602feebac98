pub mod Wanted
pub mod Fitting
pub mod Agreeing
