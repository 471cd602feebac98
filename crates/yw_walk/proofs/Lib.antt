mod Numbered
mod Leaving
mod Entering
mod Stepping
mod NetThere
pub mod Calm
mod AllRest
mod Inner
pub mod Plainly
